pub mod Line
pub mod Batch
