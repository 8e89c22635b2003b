pub mod Capturing
pub mod Committing
pub mod Ending
pub mod LogReads
pub mod Reading
pub mod Rules
