-- The starred places, those of each n, those of verdict 6, and the cards that they speak of.
pub mod Cards
pub mod Starred
pub mod Sizes
pub mod Stale
