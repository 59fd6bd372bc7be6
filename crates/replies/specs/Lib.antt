pub mod Calls
pub mod Dear
pub mod Framing
pub mod Lending
pub mod Reply
pub mod Sizing
pub mod Wanting
