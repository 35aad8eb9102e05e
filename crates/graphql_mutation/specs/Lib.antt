pub mod Serial
pub mod Runs
pub mod Mutations
pub mod Completing
pub mod Laws
pub mod Fitting
