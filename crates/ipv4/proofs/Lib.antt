pub mod Octets
pub mod Wide
pub mod Foreign
