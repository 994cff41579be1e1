pub mod Entry
pub mod Fitting
pub mod Computing
