-- Laws of the print's texts, which the proofs of the functions and crates above cite.
pub mod Writing
pub mod Decimals
pub mod Spelling
mod Signs
mod Enclosing
mod Items
mod Listing
mod Wording
pub mod Lines
pub mod Whole
