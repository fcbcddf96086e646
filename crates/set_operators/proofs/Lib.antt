-- What the proofs of the operators on sets need; nobody else cites it.
mod Testing
mod Flattening
mod Choosing
mod Passing
mod Merging
mod Telling
mod Answers
mod Gathers
mod Ranges
