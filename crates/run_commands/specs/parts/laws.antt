pub mod Composing
pub mod Damage
pub mod Exits
pub mod Lines
pub mod Looking
pub mod Parts
