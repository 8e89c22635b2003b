pub mod LoadEvents
