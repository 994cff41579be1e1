pub mod EmptyPart
pub mod Numbered
pub mod Standing
pub mod Spans
pub mod Tags
