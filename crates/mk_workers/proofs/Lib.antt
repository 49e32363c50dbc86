pub mod Stays
pub mod Steps
pub mod Gatherings
pub mod Closings
