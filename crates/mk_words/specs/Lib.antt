pub mod Words
pub mod SmallSizes
pub mod Requests
pub mod Found
pub mod Given
