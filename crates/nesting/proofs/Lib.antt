pub mod Families
pub mod Search
