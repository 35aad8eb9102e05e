pub mod WrittenEquations
pub mod Layers
pub mod FilledEquations
pub mod FilledLaws
pub mod FragmentLemmas
