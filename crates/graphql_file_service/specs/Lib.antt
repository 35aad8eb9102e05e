pub mod TableServices
pub mod Runs
pub mod PlaceTexts
pub mod FaultPlaces
pub mod Programs
