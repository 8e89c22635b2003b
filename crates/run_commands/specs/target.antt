pub mod TargetEvents
