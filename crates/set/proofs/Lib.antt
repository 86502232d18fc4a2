pub mod Opened
pub mod Among
pub mod Table
pub mod Part
pub mod Counted
