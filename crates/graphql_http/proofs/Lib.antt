pub mod AcceptLemmas
pub mod CallLemmas
pub mod PieceLemmas
