pub mod Models
pub mod Wider
pub mod Summaries
pub mod Parts
pub mod ModelLaws
