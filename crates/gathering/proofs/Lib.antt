-- The laws of walks over items and of items that are gathered or moved together; the proofs of the operators cite them.
pub mod Walks
pub mod Testing
pub mod Growth
pub mod Packing
pub mod Spans
pub mod Gathered
