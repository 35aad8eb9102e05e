pub mod PlainMembers
pub mod PlainRuns
pub mod Rows
