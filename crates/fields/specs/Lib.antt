pub mod Field
pub mod Positions
pub mod Slices
pub mod Heads
pub mod Computing
