-- What the proofs of the functions need; forming and bindings cite `Composed`.
pub mod Telling
pub mod Composed
