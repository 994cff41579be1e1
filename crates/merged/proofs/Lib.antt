pub mod Fields
pub mod Known
pub mod Numbered
pub mod Index
pub mod Rows
pub mod Started
