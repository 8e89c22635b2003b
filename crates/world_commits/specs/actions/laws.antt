pub mod Signals
pub mod Resting
