pub mod CapturedServers
