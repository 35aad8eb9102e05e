pub mod Named
pub mod Status
pub mod Runs
pub mod Placed
