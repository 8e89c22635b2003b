pub mod Spelled
pub mod Context
