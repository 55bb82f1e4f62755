-- A damaged cluster whose plan waits, and what is computed of it.
pub mod Waiting
pub mod WaitingComputed
