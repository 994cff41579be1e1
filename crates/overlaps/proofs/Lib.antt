pub mod Nests
pub mod Scans
pub mod Verdicts
