pub mod TwoRuns
