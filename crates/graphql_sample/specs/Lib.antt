pub mod Sample
pub mod SampleTypes
pub mod SameTexts
