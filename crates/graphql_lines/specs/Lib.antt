pub mod Variables
pub mod Request
pub mod Laws
