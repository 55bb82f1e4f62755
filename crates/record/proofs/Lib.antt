-- Laws that the proofs of this crate, and of the crates above it, cite.
pub mod LayoutLaws
pub mod WitnessLaws
pub mod RecordLaws
pub mod HeaderLaws
pub mod EntryLaws
pub mod ChangedEntry
pub mod WriteLaws
pub mod JudgeLaws
pub mod HeaderJudgeLaws
pub mod RecordJudgeLaws
pub mod EntryJudgeLaws
