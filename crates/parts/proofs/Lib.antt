-- Laws of parts, of their words and of masks, which matching to the evaluator cite, and what the proofs of the functions need.
pub mod Choosing
mod Doubling
mod Running
pub mod Comparing
mod Parting
pub mod Halving
mod Putting
pub mod Packing
pub mod Masking
mod Ordering
pub mod Laws
pub mod Chosen
