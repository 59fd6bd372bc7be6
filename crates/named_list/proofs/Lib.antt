pub mod KeyedLaws
pub mod LongLaws
