pub mod BySamples
pub mod Lines
pub mod Written
pub mod Shares
pub mod Text
pub mod Batch
pub mod Calls
