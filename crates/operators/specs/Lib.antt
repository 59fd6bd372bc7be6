pub mod Fault
pub mod FirstLines
pub mod Operator
