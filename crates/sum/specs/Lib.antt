-- What the contracts of `sum` cite beside the checksum. Rows is for proofs only.
pub mod Rows
