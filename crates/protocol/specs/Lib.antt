-- What the contracts of step and run, and the claim above them, cite.
pub mod Store
pub mod Recovery
pub mod ClusterSteps
pub mod StepBytes
pub mod Call
pub mod CallResult
