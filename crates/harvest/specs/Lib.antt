pub mod Counted
pub mod Distinct
pub mod Sets
pub mod Indexed
pub mod Learnt
pub mod Harvest
pub mod Chosen
