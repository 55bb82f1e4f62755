-- What the contracts of `slices` cite.
pub mod Parts
pub mod Same
