pub mod Folders
pub mod MemoryFolders
pub mod SureFolders
pub mod Transfers
pub mod ToolStatuses
