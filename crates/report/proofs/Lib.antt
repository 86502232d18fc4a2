pub mod Exact
pub mod Within
