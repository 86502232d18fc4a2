pub mod Windows
pub mod Steps
pub mod Pieces
pub mod Whole
