pub mod Checks
pub mod Batch
