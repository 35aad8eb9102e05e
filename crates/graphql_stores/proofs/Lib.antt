mod AskedLines
mod RefusedFirst
mod AllowedLines
mod AllowingRuns
mod StoredTexts
mod ToldApart
mod KeptMembers
mod LineOfPlain
mod Endings
mod Shared
mod LeftContexts
mod ReadOnce
mod CachedAnswers
mod CachedRuns
mod Adding
pub mod ReadLines
pub mod TakenLines
