pub mod Freed
pub mod Starts
pub mod Saturations
