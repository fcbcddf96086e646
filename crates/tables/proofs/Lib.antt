-- What the proofs of the readers need, and the check computed on samples; nobody else cites these. `Rules` proves that the check is exact.
mod Lengths
mod Heads
mod Fit
mod Cutting
mod Stand
mod Sample
pub mod Rules
pub mod Laws
