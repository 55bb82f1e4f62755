-- What is computed.
pub mod ComputedLaws
