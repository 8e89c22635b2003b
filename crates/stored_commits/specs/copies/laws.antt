pub mod LoggedChanges
pub mod ShownRows
