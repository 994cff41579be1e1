pub mod Bytes
pub mod Widths
