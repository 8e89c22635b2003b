pub mod Fields
pub mod Lines
pub mod Refusals
pub mod Replies
pub mod Rows
pub mod Status
pub mod Steps
