-- Document 02, W13: the search and the call, what the answer promises, and samples.
pub mod Bridge
pub mod Promises
pub mod BridgeSamples
