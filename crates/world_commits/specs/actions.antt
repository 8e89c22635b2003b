pub mod StaysSound
pub mod Flags
pub mod Resting
pub mod laws
