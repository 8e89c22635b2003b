pub mod Lists
pub mod Kept
pub mod Items
pub mod Places
