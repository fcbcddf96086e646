-- What going over the items of sets, and testing operands, asks and promises, for the contracts of this crate alone.
pub mod Members
pub mod Operands
