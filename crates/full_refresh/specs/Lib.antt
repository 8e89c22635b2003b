pub mod Signals
pub mod PutSignals
pub mod Refreshes
pub use Rattle.source_log.specs.Rules
