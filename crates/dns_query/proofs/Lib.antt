pub mod BelievedLaws
pub mod IndexedLaws
pub mod VerdictLaws
