pub mod Keys
pub mod Checks
