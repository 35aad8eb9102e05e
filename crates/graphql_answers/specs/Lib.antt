pub mod Responses
pub mod Lines
pub mod Texts
