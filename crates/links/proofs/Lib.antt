pub mod Indices
pub mod Hops
pub mod Gathers
