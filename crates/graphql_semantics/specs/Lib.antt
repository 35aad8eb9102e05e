pub mod Engines
pub mod Outcomes
pub mod Completion
pub mod Evaluation
pub mod Fitting
pub mod Failing
pub mod Turns
pub mod Laws
