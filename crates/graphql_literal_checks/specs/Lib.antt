pub mod InputTypes
pub mod Conforms
pub mod Judged
pub mod OpenValues
pub mod Laws
pub mod Defaults
