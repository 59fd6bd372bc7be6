pub mod CommandLaws
pub mod PairLaws
pub mod OldestLaws
pub mod VersionLaws
pub mod OverLaws
