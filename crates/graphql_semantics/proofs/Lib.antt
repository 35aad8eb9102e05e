pub mod Elements
mod Heights
pub mod RepeatLemmas
pub mod GroupRepeats
mod RepeatHeights
mod Walks
pub mod Depths
pub mod GroupKeys
pub mod FittingData
mod DistinctMembers
pub mod Failures
pub mod ExactFailures
pub mod ToldErrors
pub mod RunRepeats
pub mod TurnLaws
pub mod Rows
