pub mod Forest
pub mod Found
pub mod Networks
