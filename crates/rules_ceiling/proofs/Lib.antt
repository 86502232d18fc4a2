pub mod Samples
pub mod Demands
pub mod Offered
