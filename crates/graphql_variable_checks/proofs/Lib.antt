pub mod RefusalLemmas
pub mod JudgedLemmas
pub mod LawLemmas
pub mod Sorted
pub mod Rows
