pub mod Batch
pub mod Batches
pub mod Cases
pub mod Computing
