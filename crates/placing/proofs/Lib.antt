pub mod Opens
pub mod Steps
