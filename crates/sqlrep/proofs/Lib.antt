pub mod Asked
pub mod Needed
pub mod NewServers
pub mod RunEnds
