pub mod Stages
pub mod Gatherings
