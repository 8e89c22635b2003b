pub mod Loads
pub mod SoundLoads
pub mod WorkedLoads
pub mod laws
