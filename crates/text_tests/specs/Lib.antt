pub mod Commands
pub mod Lines
pub mod LogLines
pub mod Refusals
pub mod Replies
pub mod Rows
pub mod Status
pub mod Steps
