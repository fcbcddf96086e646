-- What the proofs of the functions need; nobody else cites it.
mod Starting
mod Moving
mod Lending
