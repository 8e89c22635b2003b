pub mod Limits
pub mod Pieces
pub mod Input
pub mod Lines
pub mod Script
pub mod laws
