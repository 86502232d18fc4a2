pub mod Blanks
pub mod Scores
pub mod Picks
