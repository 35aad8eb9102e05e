pub mod WalkLemmas
pub mod StageLemmas
pub mod ReportedLemmas
pub mod ValidLemmas
pub mod WellFormedLemmas
pub mod AllRulesLemmas
pub mod ApartLemmas
