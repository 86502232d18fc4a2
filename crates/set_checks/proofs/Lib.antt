pub mod Header
pub mod Keys
