pub mod Cover
