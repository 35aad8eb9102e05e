pub mod Keyed
pub mod WalkLaws
pub mod LeadLaws
pub mod CollectingLaws
pub mod Bringing
pub mod SizeLaws
