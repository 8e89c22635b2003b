pub mod Causes
pub mod Damage
pub mod ExitStatus
pub mod Found
pub mod Parts
pub mod Refusing
pub mod RunErrors
pub mod laws
