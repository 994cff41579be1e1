pub mod Splitting
pub mod Answering
