pub mod Rows
pub mod Images
pub mod Ordering
