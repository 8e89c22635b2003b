pub mod Reads
pub mod Steps
pub mod Faults
pub mod Damage
