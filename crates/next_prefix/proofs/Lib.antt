pub mod Ends
pub mod Walk
