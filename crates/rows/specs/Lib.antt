pub mod Entry
pub mod Good
pub mod Ordered
pub mod Computing
