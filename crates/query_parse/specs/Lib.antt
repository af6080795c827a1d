pub mod FirstFault
pub mod Grammar
pub mod Parse
pub mod Places
pub mod Reading
pub mod Text
pub mod TokenForms
pub mod ReadBack
