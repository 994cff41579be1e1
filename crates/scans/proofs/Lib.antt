pub mod Accepting
pub mod Walks
pub mod Ends
pub mod Turns
