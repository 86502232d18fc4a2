pub mod Find
pub mod Part
