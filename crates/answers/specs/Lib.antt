pub mod Reasons
pub mod Reply
pub mod Answered
pub mod Reporting
pub mod Told
pub mod Computing
