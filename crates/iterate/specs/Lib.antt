-- What a task is held to.
pub mod Exchanges
pub mod Told
pub mod Shown
pub mod Known
pub mod Served
pub mod Room
pub mod Resolved
pub mod Come
pub mod Wanted
-- What its code remembers, and how far it is.
pub mod Looked
pub mod Following
pub mod Judged
pub mod Searching
pub mod Measure
pub mod Phase
pub mod Admitting
pub mod Joining
pub mod Hunting
pub mod Going
pub mod Narrowed
pub mod FirstLookup
pub mod Task
pub mod Laws
