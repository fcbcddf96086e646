-- What the proofs of the operators on sequences need; nobody else cites it.
mod Counts
mod Firsts
mod Flattening
mod Turning
mod Joining
mod Numbered
