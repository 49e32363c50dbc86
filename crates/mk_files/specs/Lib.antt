pub mod Bounds
pub mod Table
pub mod Places
pub mod Tokens
pub mod Numbers
pub mod Reading
