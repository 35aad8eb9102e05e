pub mod Arguments
pub mod Status
pub mod Placed
