-- A damaged cluster of four replicas, and what is computed of it.
pub mod Four
pub mod EvenComputed
