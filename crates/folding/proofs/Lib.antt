pub mod Fold
pub mod Alike
