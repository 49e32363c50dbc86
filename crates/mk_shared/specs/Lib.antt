pub mod GivenUp
pub mod LedgerTurns
pub mod LedgerLaws
pub mod LedgerSteps
pub mod Placing
pub mod SharedSeats
pub mod SharedAnswers
pub mod SeatFields
