pub mod Filter
pub mod Rows
pub mod Listed
pub mod Computing
pub mod Examples
