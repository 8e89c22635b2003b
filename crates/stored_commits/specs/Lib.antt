pub mod records
pub mod units
pub mod copies
pub mod logs
pub mod captures
pub mod actions
pub mod laws
