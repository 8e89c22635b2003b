pub mod FedInput
pub mod Feeding
pub mod Lines
pub mod laws
