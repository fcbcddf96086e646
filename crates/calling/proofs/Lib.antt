-- The laws of the calling convention; the proofs of the operators and of the evaluator cite them.
pub mod Framing
pub mod Answering
pub mod Kinding
pub mod Pairs
pub mod Numbered
