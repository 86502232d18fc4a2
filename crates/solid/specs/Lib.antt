pub mod Solid
