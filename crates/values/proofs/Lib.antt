-- Laws of values, of items and of records in a slice, which crates above cite, and what the proofs of the functions need.
pub mod Order
pub mod Encoding
pub mod Joined
pub mod Members
pub mod Entries
pub mod Listed
pub mod Records
pub mod Frame
pub mod Written
mod Reading
mod Writing
mod Copying
mod Ordering
mod Telling
mod Shapes
mod Found
pub mod Alone
