pub mod Kinds
pub mod Showing
pub mod laws
