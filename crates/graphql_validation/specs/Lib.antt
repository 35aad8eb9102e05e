pub mod FirstStage
pub mod Valid
pub mod WellFormed
pub mod AllRules
pub mod Apart
