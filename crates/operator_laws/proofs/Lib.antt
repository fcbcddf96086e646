-- Theorems on the operators, none of which needs to be believed. Cited by the operators on scratch and by meaning.
pub mod OfKind
pub mod Gather
pub mod Ranges
pub mod Entries
pub mod Results
pub mod Enumerations
pub mod Booleans
pub mod Sets
pub mod Sequences
pub mod Maps
pub mod Listed
