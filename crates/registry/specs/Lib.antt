pub mod Limits
pub mod Tags
pub mod Defects
