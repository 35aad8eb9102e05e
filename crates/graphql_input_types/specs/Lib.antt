pub mod Nullables
pub mod NullableLending
pub mod Identifiers
