pub mod Resolvers
pub mod Executed
pub mod Answered
pub mod IntrospectionQuery
pub mod Fitting
pub mod Laws
pub mod Requests
