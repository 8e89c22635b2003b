pub mod StoredChanges
pub mod StoredCaptures
