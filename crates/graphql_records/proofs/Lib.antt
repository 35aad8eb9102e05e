pub mod ValueEquations
pub mod SettingLemmas
pub mod Respects
pub mod Refusals
pub mod TableLemmas
pub mod ExactScalars
