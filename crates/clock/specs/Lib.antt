pub mod Ticks
pub mod Moments
