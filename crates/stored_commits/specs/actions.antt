pub mod ActedServers
pub mod StoredSteps
pub mod FlaggedServers
pub mod laws
