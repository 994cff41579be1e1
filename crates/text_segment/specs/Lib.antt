pub mod Named
pub mod Answers
pub mod Computing
