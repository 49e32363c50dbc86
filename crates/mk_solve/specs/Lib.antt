pub mod Books
pub mod Solutions
pub mod FirstStarts
pub mod Steps
pub mod Crews
