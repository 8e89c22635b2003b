mod BlockSteps
mod Blocked
mod CycleSteps
mod StepCases
