pub mod Words
pub mod Commands
pub mod Asked
pub mod Readings
