pub mod LongerServers
