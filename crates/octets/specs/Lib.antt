pub mod Lists
pub mod Number
pub mod Order
pub mod Positions
pub mod Split
pub mod Scan
pub mod Ascii
pub mod Computing
