pub mod Lined
pub mod Computing
pub mod Examples
