pub mod Answered
pub mod IntoFieldErrors
pub mod Reasons
