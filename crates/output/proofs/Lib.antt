pub mod Replies
pub mod Emit
pub mod Reports
pub mod Writing
