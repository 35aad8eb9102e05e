pub mod Apart
pub mod Deprecated
pub mod Filtering
