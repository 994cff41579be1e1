pub mod Splitting
pub mod Among
pub mod Parts
