pub mod Blaming
pub mod NamedTables
pub mod DefinitionReads
pub mod Standing
