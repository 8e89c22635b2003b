pub mod ColumnTexts
pub mod Entries
