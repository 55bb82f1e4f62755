-- Laws that the proofs of this crate, and of the crates above it, cite.
pub mod SumLaws
pub mod ChangedLaws
