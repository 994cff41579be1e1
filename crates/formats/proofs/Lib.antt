pub mod Names
pub mod Styles
pub mod Lengths
