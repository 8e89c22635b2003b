pub mod Numbers
pub mod Rows
pub mod laws
pub use Rattle.keep_core.specs.Contents
