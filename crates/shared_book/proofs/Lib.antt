mod CallLaws
mod ClosingLaws
mod Echoes
mod EqualLaws
pub mod OneHistory
mod OrderLaws
mod RecordLaws
