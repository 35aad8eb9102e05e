pub mod Moved
pub mod MovedTrees
pub mod UnlocatedTrees
pub mod Kept
pub mod Laws
