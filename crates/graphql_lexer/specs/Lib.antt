pub mod Modes
pub mod OneByOne
pub mod Within
pub mod Records
pub mod Laws
