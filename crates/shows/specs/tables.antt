pub mod Records
pub mod Replies
pub mod Rules
pub mod Showing
pub mod laws
