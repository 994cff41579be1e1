pub mod Template
pub mod Styles
pub mod Computing
pub mod Examples
