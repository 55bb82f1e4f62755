-- Laws that the proofs of this crate, and of the crates above it, cite.
pub mod CommandLaws
pub mod InputLaws
pub mod AloneLaws
pub mod SetRefusalLaws
pub mod LineLaws
pub mod ReportLaws
