pub mod Services
pub mod Placing
