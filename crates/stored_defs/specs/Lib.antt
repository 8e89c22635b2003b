pub mod DefinitionReads
pub mod Reading
pub mod Rules
pub mod laws
