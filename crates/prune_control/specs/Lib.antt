pub mod Noting
pub mod Putting
pub mod laws
