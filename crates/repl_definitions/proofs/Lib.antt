pub mod Forests
pub mod Tagged
pub mod Trees
