-- What the contracts of `record` cite.
pub mod Layout
pub mod Meaning
pub mod Exactly
pub mod Judged
pub mod Seal
pub mod Claims
