pub mod ReportLemmas
pub mod FoundLemmas
pub mod NoFaultLemmas
pub mod RepeatLemmas
