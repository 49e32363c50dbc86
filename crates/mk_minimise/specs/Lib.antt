pub mod Minimal
pub mod Links
pub mod Overlaps
pub mod LinkSteps
pub mod Stages
