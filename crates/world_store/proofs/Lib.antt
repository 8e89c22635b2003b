pub mod EmptyServers
