-- What the building of sets and sequences that several families of operators share asks and promises. Cited by the operators on sets and sequences and the evaluator.
pub mod Consecutive
pub mod Inserting
pub mod Kinds
