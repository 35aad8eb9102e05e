pub mod Answers
pub mod Asked
pub mod Given
pub mod Inputs
pub mod Refusals
pub mod Told
