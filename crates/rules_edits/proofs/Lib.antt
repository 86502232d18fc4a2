pub mod Edits
pub mod EditSamples
