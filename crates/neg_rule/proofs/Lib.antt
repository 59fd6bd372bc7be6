pub mod AliasLaws
pub mod NegativeLaws
