pub mod Ipv4
pub mod Examples
pub mod Computing
