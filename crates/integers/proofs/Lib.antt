-- Laws of the definitions, which crates above cite, and of the machine's arithmetic.
pub mod Range
pub mod Parts
pub mod Division
pub mod Quotients
pub mod Ordered
pub mod Written
mod Sample
mod Machine
mod Ends
mod Rest
