pub mod Servers
pub mod Units
