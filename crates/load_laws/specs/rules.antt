pub mod Accepted
pub mod StaysSound
pub mod laws
