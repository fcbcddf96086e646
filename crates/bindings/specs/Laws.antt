-- What the proofs of bindings and of the evaluator cite of windows.
pub mod Window
