pub mod Replying
pub mod Told
