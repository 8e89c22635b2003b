pub mod Texts
pub mod AcceptedTexts
