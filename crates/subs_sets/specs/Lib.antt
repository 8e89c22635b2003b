pub mod Actions
pub mod Cuts
pub mod Flagging
pub mod Gaps
pub mod Rules
pub mod States
pub mod laws
