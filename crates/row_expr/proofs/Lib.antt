pub mod Evaluation
pub mod PendingPredicates
