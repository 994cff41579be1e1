pub mod Path
pub mod Positions
pub mod Computing
