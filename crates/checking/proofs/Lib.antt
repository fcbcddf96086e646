-- What the proofs of the passes need; nobody else cites it.
mod Scan
mod Marks
mod Below
mod Shapes
mod Above
mod Bits
mod Faults
mod Reaching
mod Heights
mod Leaving
mod Closing
mod Allowing
mod Gathering
mod Adding
mod Verdict
