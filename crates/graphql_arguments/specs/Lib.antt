pub mod ArgumentValues
pub mod GivenValues
pub mod Reading
pub mod SameArguments
