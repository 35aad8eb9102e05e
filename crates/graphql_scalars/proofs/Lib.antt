pub mod IntLemmas
pub mod StringLemmas
pub mod StringMeaning
pub mod JoinLemmas
pub mod BadEscapes
