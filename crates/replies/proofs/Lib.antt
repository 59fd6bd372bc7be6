pub mod Asked
pub mod Dearness
mod Formed
mod Framed
mod Parts
mod Sizes
