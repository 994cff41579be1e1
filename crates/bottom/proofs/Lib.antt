pub mod Gaps
pub mod Tests
pub mod Children
pub mod Picks
