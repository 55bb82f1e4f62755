-- The example of demand 3: clusters before their damage, five replicas after it, and what is computed of them.
pub mod Undamaged
pub mod Damaged
pub mod Computed
