pub mod Call
pub mod Answers
pub mod Fitting
pub mod Computing
pub mod Examples
