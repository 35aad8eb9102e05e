pub mod Counts
pub mod Lines
pub mod Runs
pub mod Waiting
pub mod Served
