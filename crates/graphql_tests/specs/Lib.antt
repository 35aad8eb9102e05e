pub mod RegistryRows
pub mod SpelledNames
