pub mod Named
pub mod Searching
pub mod Table
