pub mod MakeSet
pub mod MakeSamples
