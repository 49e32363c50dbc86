pub mod RowsCut
pub mod ErrorsPassed
pub mod DigitsRead
pub mod NumbersRead
pub mod TokensBegin
pub mod FaultsFound
