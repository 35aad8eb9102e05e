pub mod Differing
pub mod JoinedFields
pub mod JoinSteps
