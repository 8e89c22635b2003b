pub mod AtServers
pub mod Stepped
