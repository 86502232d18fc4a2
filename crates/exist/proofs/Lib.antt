pub mod Letters
pub mod Chosen
pub mod Attempts
