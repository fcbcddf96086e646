-- What every crate's proofs stand on: impossible equations, tests, and what is among a list or at an index of it.
pub mod Absurd
pub mod Truth
pub mod Membership
pub mod Lists
