-- Clusters with witnesses for demand 3, and what is computed of them.
pub mod Boxes
pub mod Kept
pub mod Alone
pub mod Computed
