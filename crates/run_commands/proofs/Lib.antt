mod AfterReads
mod Applying
pub mod Batches
pub mod BodyLines
mod CaptureEvents
pub mod FedRecords
pub mod Feeds
mod FoundApplying
mod FoundSets
pub mod LoadDamage
pub mod LoadEvents
mod MadeSteps
mod NamedSteps
mod Outcomes
mod RefreshEvents
mod ShowEvents
pub mod StatusEvents
mod StepDamage
mod StepEnds
mod TargetEvents
mod ToldSteps
mod UnitNumbers
