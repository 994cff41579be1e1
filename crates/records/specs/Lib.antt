pub mod Record
pub mod Judge
pub mod Positions
pub mod Examples
pub mod Computing
pub mod Layout
