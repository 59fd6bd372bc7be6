pub mod Books
pub mod OperatorLines
pub mod Version
