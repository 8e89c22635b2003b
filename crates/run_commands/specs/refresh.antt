pub mod RefreshEvents
