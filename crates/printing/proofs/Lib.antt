-- From list to list, what is to come line by line, and what the pieces come to, which the walk program cites; and what the proofs of the functions need.
pub mod Walking
pub mod Texts
mod Lining
mod Filling
pub mod Pieces
