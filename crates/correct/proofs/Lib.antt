pub mod Drives
pub mod Limits
pub mod Passes
pub mod Room
pub mod Reached
