pub mod Ipv6
pub mod Read
pub mod Examples
pub mod Computing
