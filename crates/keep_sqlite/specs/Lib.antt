pub mod AnyKeepers
pub mod Keepers
