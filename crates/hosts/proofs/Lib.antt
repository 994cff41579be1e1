pub mod HostScan
pub mod Labels
pub mod Hosts
