-- What the contracts of `checksum` cite.
pub mod Checksum
