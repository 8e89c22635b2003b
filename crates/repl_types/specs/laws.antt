pub mod Lists
pub mod Names
pub mod Numbers
pub mod Order
pub mod Unescaped
pub mod ValueText
