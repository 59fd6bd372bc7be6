pub mod Walking
pub mod Spelling
pub mod Asking
pub mod Replying
