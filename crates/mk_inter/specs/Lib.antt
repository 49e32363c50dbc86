pub mod Tails
pub mod TailSteps
