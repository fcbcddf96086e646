-- What the functions that match the parts of a pattern ask and promise. Cited by splitting, forming and bindings.
pub mod Node
pub mod Leaf
