pub mod StatusEvents
