mod DistinctRuns
mod FittingRuns
pub mod RunLemmas
pub mod SerialSteps
pub mod SerialRepeats
pub mod SerialEnds
pub mod SerialQueries
pub mod Rows
