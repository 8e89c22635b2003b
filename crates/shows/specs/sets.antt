pub mod Replies
pub mod Targets
pub mod Rules
pub mod Showing
