pub mod Scan
pub mod Attempt
