pub mod Occurrences
pub mod Requests
