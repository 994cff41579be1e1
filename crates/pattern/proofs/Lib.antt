pub mod Forms
pub mod Matches
