mod Counting
mod Failing
pub mod Headers
pub mod Leading
mod Reading
mod Streaming
mod Telling
