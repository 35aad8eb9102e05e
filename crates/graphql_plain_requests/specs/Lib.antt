pub mod ErrorTexts
pub mod Faults
pub mod PlainRequests
pub mod StandIns
pub mod AcceptedAgain
pub mod Laws
