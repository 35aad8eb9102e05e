pub mod Turns
pub mod Named
pub mod Requests
pub mod BadNumbers
pub mod Constants
pub mod Members
