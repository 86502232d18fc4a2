pub mod Passed
pub mod Filter
