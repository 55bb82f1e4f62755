-- What the contracts of `report` cite.
pub mod Command
pub mod Report
pub mod Lines
pub mod SetClaim
