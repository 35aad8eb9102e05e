pub mod DefinitionLaws
pub mod DefinitionParts
pub mod DefinitionReadings
pub mod Described
pub mod HeadNames
pub mod Literals
pub mod Tellings
pub mod WholeTexts
