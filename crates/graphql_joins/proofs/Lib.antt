mod JoinKeys
mod JoinedMembers
mod OneJoin
mod JoinedAnswers
mod TypedSets
pub mod JoinedRuns
pub mod Selections
mod SameFilled
pub mod SameArguments
pub mod Covariance
pub mod Rows
mod TypedSelections
mod StandingSets
pub mod QuerySets
mod DefaultScalars
mod AnsweredAlike
mod SoundEngines
pub mod JoinedDocuments
pub mod RequestRows
