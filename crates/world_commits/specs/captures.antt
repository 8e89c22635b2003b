pub mod Captures
pub mod StaysSound
pub mod WorkedCaptures
pub mod laws
