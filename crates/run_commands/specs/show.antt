pub mod ShowEvents
