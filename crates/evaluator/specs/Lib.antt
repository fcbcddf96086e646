-- What evaluating a record asks and promises: the one contract of the evaluator's functions. Walks and services cite it.
pub mod Contract
pub mod Leaves
pub mod Building
pub mod Binding
pub mod Sheet
