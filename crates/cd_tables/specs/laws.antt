pub mod InOrder
pub mod SoundUnits
pub mod SoundChanges
pub mod CapturedRows
pub mod ChangeKeys
pub mod ClearedTables
