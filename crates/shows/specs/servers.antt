pub mod Rules
pub mod Showing
pub mod Status
