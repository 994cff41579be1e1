pub mod Call
pub mod Spelling
pub mod Computing
pub mod Examples
