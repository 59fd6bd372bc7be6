pub mod CountedLaws
pub mod SetLaws
pub mod IndexedLaws
pub mod DistinctLaws
pub mod LoopLaws
pub mod ZoneLaws
pub mod ChosenLaws
