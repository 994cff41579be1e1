pub mod HostScan
pub mod Pairs
