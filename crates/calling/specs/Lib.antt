-- The calling convention of operators on scratch: all operators keep it, and the evaluator calls them by it.
pub mod Scratch
pub mod Applied
pub mod Operands
