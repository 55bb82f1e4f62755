-- What `demand3` cites of this example.
pub mod WaitingLaws
