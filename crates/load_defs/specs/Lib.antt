pub mod Counts
pub mod Loading
pub mod Planning
pub mod Putting
