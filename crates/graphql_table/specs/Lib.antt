pub mod TableTypes
pub mod Resolvers
pub mod Changes
pub mod ChangeLaws
