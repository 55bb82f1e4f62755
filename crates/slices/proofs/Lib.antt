-- Laws that the proofs of this crate, and of the crates above it, cite.
pub mod SameLaws
pub mod PartLaws
pub mod SpliceLaws
pub mod NestedLaws
pub mod DifferingLaws
pub mod LoopLaws
