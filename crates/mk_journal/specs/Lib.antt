pub mod Entries
pub mod JournalRuns
