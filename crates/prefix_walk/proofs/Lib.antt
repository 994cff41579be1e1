pub mod Falling
pub mod Writing
pub mod Few
