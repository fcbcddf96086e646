-- The numbers of the strict operators; the evaluator cites them.
pub mod Numbers
