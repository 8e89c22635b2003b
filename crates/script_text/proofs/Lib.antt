pub mod Answered
pub mod Apart
pub mod FirstWords
pub mod Forms
pub mod Numerals
pub mod OneCommand
pub mod Slices
