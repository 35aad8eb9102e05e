pub mod BuiltIns
pub mod Definitions
pub mod Heads
pub mod Notes
pub mod ReadDefinitions
pub mod Rows
pub mod Texts
pub mod Types
