pub mod Batches
