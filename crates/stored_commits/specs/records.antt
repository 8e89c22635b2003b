pub mod LongerTables
pub mod InFlight
pub mod SourceTables
pub mod SourceReads
pub mod SourceLogs
pub mod Applying
pub mod StorableRows
pub mod laws
