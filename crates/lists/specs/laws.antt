pub mod Members
pub mod Embedded
pub mod Numbered
pub mod Images
pub mod Places
pub mod Options
