pub mod RuleErrorText
pub mod Places
pub mod Repeats
pub mod Found
