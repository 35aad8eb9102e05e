pub mod Pending
pub mod Siblings
