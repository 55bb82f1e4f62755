-- What the contracts of `planner` cite.
pub mod Setting
pub mod Rules
pub mod Plan
pub mod Sets
pub mod Survey
pub mod Answers
pub mod Tabulated
pub mod AskingClaim
pub mod ClusterRefusalClaim
