pub mod Names
pub mod NameMaps
pub mod Indexes
pub mod Laws
pub mod TypeReference
pub mod NameSets
