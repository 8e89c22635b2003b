pub mod ReadsByNodes
pub mod Whole
