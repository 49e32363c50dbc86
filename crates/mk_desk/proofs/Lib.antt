pub mod FilesInMemory
pub mod Loading
pub mod Telling
