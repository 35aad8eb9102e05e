pub mod SetsAt
pub mod Numbered
pub mod Reading
