pub mod Ranges
pub mod Address
pub mod Positions
pub mod Computing
