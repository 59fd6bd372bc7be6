pub mod Adding
pub mod Giving
pub mod Ranging
pub mod Saying
pub mod Literals
