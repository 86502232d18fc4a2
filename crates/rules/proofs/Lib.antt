pub mod Samples
pub mod Report
pub mod IndexSamples
pub mod SupportSamples
