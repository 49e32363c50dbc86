pub mod Meanings
pub mod Turns
pub mod Numbers
pub mod Seats
