pub mod Lines
pub mod MadeLines
