pub mod Chains
pub mod Evaluation
pub mod Operations
pub mod PendingPredicates
