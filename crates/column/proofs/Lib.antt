-- Laws that the proofs of this crate, and of the crates above it, cite.
pub mod ColumnLaws
pub mod StateLaws
pub mod LoopLaws
