pub mod JournalRuns
