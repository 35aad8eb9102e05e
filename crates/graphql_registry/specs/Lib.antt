pub mod ClonesAnswer
pub mod Registries
pub mod Resolvables
pub mod TypeReferences
