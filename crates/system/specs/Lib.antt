pub mod Counts
pub mod Descriptors
pub mod Failures
pub mod Place
pub mod Ranges
