pub mod Units
pub mod Servers
