pub mod Pieces
pub mod Units
pub mod Rows
pub mod Sums
pub mod Sizes
pub mod SizesText
pub mod Cells
