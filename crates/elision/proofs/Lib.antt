pub mod Elisions
pub mod Sides
