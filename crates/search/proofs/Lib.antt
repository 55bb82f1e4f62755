-- Laws that the proofs of this crate, and of the crates above it, cite.
pub mod SearchLaws
pub mod UpdateLaws
pub mod CountLaws
pub mod ListedLaws
pub mod ChainLaws
