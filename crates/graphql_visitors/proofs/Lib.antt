pub mod RunLemmas
pub mod RuleLemmas
pub mod FragmentLemmas
pub mod ReportLemmas
