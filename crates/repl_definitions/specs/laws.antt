pub mod Defined
pub mod Exprs
pub mod Forests
pub mod Members
pub mod Predicates
pub mod Sets
