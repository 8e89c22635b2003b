pub mod Stored
pub mod Servers
pub mod Limits
pub mod Differences
pub mod Refusals
pub mod Additions
