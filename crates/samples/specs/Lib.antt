-- Tables and what their walks show, computed: document 01's sample sheets, and one small table for each kind, pattern and refusal. Nobody cites it.
pub mod Notation
pub mod Samples
pub mod Kinds
pub mod Patterns
pub mod Refusals
pub mod Calls
pub mod Prints
