pub mod servers
pub mod tables
pub mod sets
