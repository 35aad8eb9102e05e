pub mod Adding
pub mod NameSets
pub mod Faults
pub mod Plans
pub mod Leads
pub mod Frames
pub mod Alone
