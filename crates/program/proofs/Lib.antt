pub mod Call
pub mod Answer
