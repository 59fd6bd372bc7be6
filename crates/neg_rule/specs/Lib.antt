pub mod Alias
pub mod Negative
