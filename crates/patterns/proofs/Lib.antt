-- Theorems on these definitions, and what their proofs need. Cited by the crates above.
pub mod Laws
