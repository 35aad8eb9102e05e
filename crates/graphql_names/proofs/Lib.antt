pub mod NameTokens
pub mod NameLemmas
pub mod Repeats
pub mod NameMaps
pub mod Indexes
pub mod IndexInsertions
pub mod TypeLemmas
