pub mod LongerLogs
pub mod OwnUnits
pub mod StaysSound
pub mod WorkedRecords
pub mod laws
