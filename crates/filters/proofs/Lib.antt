pub mod Rows
pub mod Lengths
pub mod Networks
