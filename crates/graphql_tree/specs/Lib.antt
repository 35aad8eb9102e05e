pub mod Arguments
pub mod Variables
pub mod Unlocated
pub mod Counts
pub mod Documents
pub mod Definitions
