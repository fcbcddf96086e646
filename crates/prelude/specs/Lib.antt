-- What is among a list: cited by choices, patterns and meaning; the laws in proofs/ by all crates. The numbers of the refusals of a run.
pub mod Membership
pub mod Refusals
