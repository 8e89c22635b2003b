pub mod CellCounts
pub mod OneServer
pub mod OneOpening
pub mod Ranges
pub mod Together
