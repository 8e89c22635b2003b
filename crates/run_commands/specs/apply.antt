pub mod StepEvents
pub mod Progress
