pub mod logs
pub mod captures
pub mod actions
pub mod readings
pub mod laws
