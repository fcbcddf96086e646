-- What callers make of the promises, and what the proofs of the functions need. Cited by the operators on scratch and the evaluator.
pub mod Shown
pub mod Built
mod Seeking
pub mod Additions
mod Shifting
mod Sights
mod Entering
mod Gaps
mod Looking
mod Walks
