-- Demand 3: what it supposes, what the power may do, what holds after every list of calls, and an example.
pub mod Interrupted
pub mod CallList
pub mod Supposed
pub mod Before
pub mod Cards
pub mod Claim
pub mod Demand3
pub mod Histories
pub mod Played
pub mod Earliest
pub mod LaterPlayed
pub mod WitnessPlayed
pub mod HeaderNeeded
