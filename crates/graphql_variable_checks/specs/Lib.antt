pub mod Accepted
pub mod Laws
