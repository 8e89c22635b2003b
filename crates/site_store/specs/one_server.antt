pub mod Calls
pub mod laws
