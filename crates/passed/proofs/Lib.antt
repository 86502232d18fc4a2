pub mod Among
pub mod Bits
