pub mod Definitions
pub mod LogRecords
pub mod Order
pub mod Spelling
pub mod Storable
pub mod Takes
pub mod laws
