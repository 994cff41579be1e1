pub mod Prefixes
pub mod Shortest
pub mod First
pub mod Computing
pub mod Examples
