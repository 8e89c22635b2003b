pub mod Called
pub mod Counting
pub mod Names
pub mod Replaced
