pub mod Few
pub mod Grouped
pub mod Walks
pub mod Walked
pub mod OpenSets
pub mod Sizes
pub mod Collecting
