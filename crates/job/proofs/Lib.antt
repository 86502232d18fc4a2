pub mod Opening
pub mod Single
