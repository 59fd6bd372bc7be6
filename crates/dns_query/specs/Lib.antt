pub mod Query
pub mod Response
pub mod Believed
pub mod BelievedLaws
pub mod Referral
pub mod Indexed
pub mod Verdict
