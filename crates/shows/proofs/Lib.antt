pub mod Digits
pub mod Numbered
pub mod StandingStatus
pub mod Contents
pub mod ReadingOne
mod Passed
mod Written
pub mod TableBlame
pub mod Pieces
pub mod ShownRows
pub mod Showing
pub mod StandingRows
pub mod StandingTables
mod AfterReads
mod SetBlame
mod KnownStatus
mod NamedMembers
mod TargetsDiffer
mod FoundTargets
