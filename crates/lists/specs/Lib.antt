-- The choices of a run as lent bytes, what is taken from them, and the list that they hold. Cited by the evaluator and walks.
pub mod Lent
pub mod Choosing
pub mod Runs
