pub mod Shapes
pub mod Laid
pub mod Layouts
pub mod Contents
pub mod Accepted
pub mod Crossing
pub mod Judging
pub mod Order
