pub mod Planned
pub mod Path
pub mod PlannedLoads
