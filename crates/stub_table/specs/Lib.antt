pub mod Stubs
pub mod Closest
pub mod Change
pub mod Reason
pub mod Saved
pub mod Equal
pub mod EqualLaws
