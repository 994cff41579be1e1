pub mod Text
pub mod Computing
pub mod Examples
