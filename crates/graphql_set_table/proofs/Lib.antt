pub mod Rows
pub mod Parts
pub mod SetLemmas
pub mod Meaning
pub mod NumberLemmas
pub mod ReadingLemmas
pub mod TableLemmas
