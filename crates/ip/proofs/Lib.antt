pub mod Answers
pub mod Zones
