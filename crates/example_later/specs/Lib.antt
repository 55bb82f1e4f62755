-- Clusters of edition 2, and what is computed of them.
pub mod Later
pub mod Misheaded
pub mod LaterComputed
