-- Laws that the proofs of this crate, and of the crates above it, cite.
pub mod OffsetLaws
pub mod MadeLaws
pub mod LookLaws
pub mod LeaderStoreLaws
pub mod FollowerStoreLaws
pub mod FollowerLaws
pub mod BeginsLaws
pub mod OutlookLaws
pub mod OutcomeLaws
pub mod Underway
pub mod PlanCallLaws
pub mod SeenAfterLaws
pub mod NoteLaws
pub mod ReadySurveyLaws
pub mod Noting
pub mod RestLaws
pub mod WitnessLaws
