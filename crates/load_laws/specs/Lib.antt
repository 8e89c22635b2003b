pub mod worlds
pub mod known
pub mod rules
pub mod stored
pub mod planned
pub mod texts
pub mod laws
