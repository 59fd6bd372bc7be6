pub mod PartRows
pub mod BothRows
pub mod EndLaws
pub mod OverLaws
