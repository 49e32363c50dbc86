pub mod MoveLines
pub mod Writings
