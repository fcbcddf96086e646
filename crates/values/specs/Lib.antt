-- Document 01's values, their order and encoding, items taken together, and what the code on records asks and promises. Cited by every crate above.
pub mod Value
pub mod Items
pub mod Entries
pub mod Place
pub mod Contract
pub mod Validity
