-- The clusters on the way to a recovery of the example, and what is computed of them.
pub mod Visited
pub mod VisitedComputed
