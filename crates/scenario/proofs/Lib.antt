pub mod Mends
pub mod Trials
