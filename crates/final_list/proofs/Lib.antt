pub mod Changes
pub mod Numbered
