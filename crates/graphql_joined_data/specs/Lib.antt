pub mod Differences
pub mod Joining
pub mod Laws
