pub mod States
pub mod Captured
pub mod UnitRows
pub mod Entries
pub mod Undamaged
pub mod UnitTimes
