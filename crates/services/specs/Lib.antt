-- What the exported functions' own parts leave in the lent bytes, before the scratch is cleared. Nobody cites it.
pub mod Left
