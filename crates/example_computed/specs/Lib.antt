-- What is computed of all of them.
pub mod Computed
