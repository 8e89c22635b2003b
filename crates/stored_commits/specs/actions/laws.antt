pub mod Numbered
pub mod ShortTrails
pub mod Sources
pub mod States
