pub mod FilesRead
pub mod OneReading
