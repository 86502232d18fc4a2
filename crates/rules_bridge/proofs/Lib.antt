pub mod BridgeSamples
pub mod Codes
pub mod Search
pub mod Promised
pub mod Suffice
