pub mod CopyEvents
pub mod Showing
pub mod unwritten
pub mod fed
