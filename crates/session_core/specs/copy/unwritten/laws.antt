pub mod Causes
pub mod Refusals
pub mod Sinks
pub mod Unwritten
