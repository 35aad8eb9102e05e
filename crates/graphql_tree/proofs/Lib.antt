pub mod SelectionEquations
pub mod SelectionInduction
pub mod UnlocatedEquations
pub mod CountEquations
