pub mod Elision
