-- What the contracts of a step, of a run and of their parts cite. Answers, HandedOut, PlanCall and Statuses are for readers, the others for proofs only.
pub mod Answers
pub mod HandedOut
pub mod PlanCall
pub mod Statuses
pub mod NextStore
pub mod OutlookIs
pub mod Look
pub mod Note
