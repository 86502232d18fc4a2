pub mod InTurn
pub mod Underway
