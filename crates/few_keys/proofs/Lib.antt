pub mod Bracket
pub mod Part
