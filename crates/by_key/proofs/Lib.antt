pub mod Keyed
pub mod Keys
pub mod Ranks
