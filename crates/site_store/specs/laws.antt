pub mod Counts
pub mod Damage
pub mod Numbers
pub mod Steps
pub mod Transactions
pub mod Passing
