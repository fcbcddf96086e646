-- What testing the left of and, or and => promises; the evaluator cites it.
pub mod Connectives
