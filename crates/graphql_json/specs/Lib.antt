pub mod Numbers
pub mod Json
pub mod Writing
pub mod Laws
pub mod Parts
