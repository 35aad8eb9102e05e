pub mod RegistryRowLemmas
pub mod SpelledNames
