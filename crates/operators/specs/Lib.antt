-- What each operator and enumeration of document 01 answers for values. Cited by meaning and by the operators on scratch.
pub mod Answer
pub mod Gather
pub mod Booleans
pub mod Arithmetic
pub mod Sets
pub mod Sequences
pub mod Maps
pub mod Enumerations
pub mod Listed
pub mod Operators
