pub mod Raw
pub mod Shape
