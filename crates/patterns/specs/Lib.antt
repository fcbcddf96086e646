-- Patterns, all ways of matching, bindings and their order, a binder's bindings; the pattern of a table's record. Cited by parts to bindings, meaning and the evaluator.
pub mod Ways
pub mod Binding
pub mod Given
pub mod Pattern
pub mod Binder
pub mod Members
pub mod Units
pub mod Relation
pub mod Wide
pub mod Read
pub mod Nodes
