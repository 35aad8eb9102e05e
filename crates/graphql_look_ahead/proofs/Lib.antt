pub mod OpenLemmas
pub mod ChildrenLemmas
pub mod SearchLemmas
pub mod ValueLemmas
pub mod SelectionLemmas
pub mod EqualityLemmas
