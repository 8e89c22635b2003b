pub mod Answered
pub mod Feeding
pub mod Going
pub mod Names
pub mod Verbs
mod CopyEnds
mod CopyFeeding
mod CopyFirstLines
mod CopyGoing
mod CopyLines
mod CopyReading
mod CopyRefusals
mod ReadInputs
