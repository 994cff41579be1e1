pub mod Pattern
pub mod Examples
pub mod Computing
