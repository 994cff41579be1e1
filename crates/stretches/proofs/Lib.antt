pub mod Rows
pub mod Stretches
