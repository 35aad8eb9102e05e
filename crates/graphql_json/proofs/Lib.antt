pub mod Fronts
pub mod JsonSteps
pub mod Written
pub mod ReadBack
pub mod Outline
pub mod Keys
pub mod EachTurns
