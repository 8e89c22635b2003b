mod FirstMembers
mod PutTargets
mod StepReads
mod TakeSteps
