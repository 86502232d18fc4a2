pub mod Parts
pub mod Ends
pub mod Turns
pub mod Methods
