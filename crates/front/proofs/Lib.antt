mod Memory
pub mod Moving
mod Passing
pub mod Sending
pub mod Serving
mod Taking
