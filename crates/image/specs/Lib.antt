pub mod Image
pub mod Part
pub mod Checking
pub mod Entries
pub mod Example
pub mod Computing
pub mod Index
