pub mod Found
pub mod Numbered
