pub mod FoundLemmas
