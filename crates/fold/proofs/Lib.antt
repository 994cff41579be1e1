pub mod Finals
