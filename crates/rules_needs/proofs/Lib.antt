pub mod NeedSamples
pub mod Needs
