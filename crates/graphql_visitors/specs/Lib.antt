pub mod Subjects
pub mod Reports
pub mod Runs
pub mod Rules
