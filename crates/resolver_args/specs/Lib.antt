pub mod Blame
pub mod CommandLine
pub mod Given
pub mod Mode
pub mod Ranges
pub mod Says
