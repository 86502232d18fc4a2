pub mod Indexed
pub mod Prefixes
