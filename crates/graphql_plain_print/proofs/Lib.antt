pub mod TokenLemmas
pub mod NameLemmas
pub mod WrittenLemmas
pub mod FrameLemmas
pub mod StepLemmas
pub mod OperationLemmas
pub mod FaultLemmas
