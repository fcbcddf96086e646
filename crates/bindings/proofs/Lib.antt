-- What the proofs of the functions need; nobody else cites it.
mod Members
mod Large
mod Room
mod Telling
mod Writing
mod Windows
mod Wildcard
