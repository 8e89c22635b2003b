pub mod LoadedServers
