pub mod Digits
pub mod Ends
pub mod PartTexts
pub mod Reading
pub mod Sending
pub mod Telling
