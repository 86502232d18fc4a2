pub mod Entries
pub mod Job
