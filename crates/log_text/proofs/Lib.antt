pub mod Parts
pub mod ReadAgain
pub mod ReadFound
pub mod Values
pub mod Written
