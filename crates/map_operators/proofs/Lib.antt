-- What the proofs of the operators on maps need; nobody else cites it.
mod Pairs
mod Halving
mod Agreeing
mod Parts
mod Overriding
mod Restricting
mod Numbered
