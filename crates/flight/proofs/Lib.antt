mod Flying
mod Seats
pub mod Answering
mod Counting
mod Queueing
mod Accounting
mod Flights
mod Looking
mod Keeping
pub mod Leaving
pub mod Settling
pub mod Summing
mod Bounds
mod Places
mod Relieving
mod Ages
mod Zones
