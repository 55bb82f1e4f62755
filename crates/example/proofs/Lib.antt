-- What `demand3` cites of its example.
pub mod ComputedLaws
