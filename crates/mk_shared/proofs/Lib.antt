pub mod LedgerStepLemmas
pub mod Sights
pub mod Copies
pub mod GrownCopies
pub mod GivingUp
pub mod SeatTurns
pub mod FirstAndLast
pub mod Placings
