pub mod GroupLaws
pub mod Wide
pub mod Foreign
