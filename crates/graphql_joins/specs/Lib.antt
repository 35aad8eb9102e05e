pub mod Joins
pub mod Typed
pub mod Laws
pub mod RequestLaws
