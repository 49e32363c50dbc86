pub mod Halting
pub mod Seats
