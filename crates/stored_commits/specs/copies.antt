pub mod ChangedCopies
pub mod PointCopies
pub mod laws
