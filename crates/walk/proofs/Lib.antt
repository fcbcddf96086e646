-- What the proofs of the program need; nobody else cites it.
mod Handing
