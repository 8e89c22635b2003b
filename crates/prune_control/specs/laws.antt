pub mod Numbered
pub mod Marks
