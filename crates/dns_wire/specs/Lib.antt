pub mod Fault
pub mod Read
pub mod Lent
pub mod WellFormed
pub mod LentLaws
pub mod Write
pub mod Server
