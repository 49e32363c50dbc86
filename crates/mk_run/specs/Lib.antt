pub mod Statuses
pub mod Lines
pub mod Asked
pub mod Runs
pub mod WordRuns
pub mod Stages
