pub mod Samples
pub mod Lists
pub mod Calls
pub mod Refusals
pub mod Parts
pub mod Split
pub mod FastaSplit
