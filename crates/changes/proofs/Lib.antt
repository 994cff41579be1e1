pub mod Files
pub mod Applying
pub mod Folding
pub mod Ordered
pub mod Ranks
pub mod Keys
