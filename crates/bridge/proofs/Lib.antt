pub mod Deepening
pub mod Call
