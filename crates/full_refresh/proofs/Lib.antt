mod LastUnits
mod PutSignals
mod RefreshSteps
mod Refreshed
mod SignalRecords
mod SignalSteps
mod Signalled
