-- What the proofs of the operators on booleans and integers need; nobody else cites it.
mod Numbers
mod Equals
mod Lefts
