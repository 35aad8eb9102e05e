pub mod WithoutPlaces
pub mod AlikeSets
pub mod AlikeMutations
pub mod AgreeingValues
pub mod Lawful
pub mod Answers
pub mod Laws
