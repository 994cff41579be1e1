pub mod Answers
pub mod Reading
pub mod Read
pub mod RoundTrip
