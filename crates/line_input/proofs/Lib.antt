pub mod Bytes
pub mod LineBytes
pub mod Left
