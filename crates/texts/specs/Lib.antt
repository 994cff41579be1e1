pub mod Host
pub mod Texts
pub mod Compare
pub mod Run
pub mod Examples
pub mod Computing
