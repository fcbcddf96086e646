-- The bindings of a binder in a window of scratch: what is asked and promised. Cited by the evaluator.
pub mod Window
pub mod Laws
pub mod Forming
pub mod Filling
pub mod Opening
