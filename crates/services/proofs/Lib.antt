-- What the proofs of the exported functions need; nobody else cites it.
mod Admitting
mod Calls
