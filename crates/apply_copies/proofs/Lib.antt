pub mod ChangeKeys
pub mod ChangeReads
pub mod ChangesInTurn
pub mod ClearedRows
pub mod CopiedRows
pub mod Elsewhere
pub mod ImagedRows
pub mod KeyRanks
pub mod MemberFaults
pub mod MemberLoads
pub mod MemberTakes
pub mod TakenRows
mod CopySteps
mod CopyTables
mod ShownCopies
mod StepFaults
