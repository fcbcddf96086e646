-- What the proofs of applying need; nobody else cites it.
mod Finding
