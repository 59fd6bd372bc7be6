mod Hearing
mod Passing
pub mod Remembering
mod Striking
