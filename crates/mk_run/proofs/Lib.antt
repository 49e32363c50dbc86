pub mod Endings
pub mod Refusals
pub mod Models
pub mod Found
pub mod Solved
pub mod Decided
pub mod Unread
