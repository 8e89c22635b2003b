pub mod Places
pub mod Finding
pub mod Members
pub mod Reading
pub mod Steps
pub mod Targets
pub mod laws
