-- What the contracts of `column` cite.
pub mod Column
pub mod Digit
pub mod ColumnState
pub mod Claims
