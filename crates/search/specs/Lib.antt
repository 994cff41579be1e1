pub mod Search
pub mod Picks
pub mod Computing
