pub mod Projects
pub mod Readings
