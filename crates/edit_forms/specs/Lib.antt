pub mod Sheet
pub mod Formed
