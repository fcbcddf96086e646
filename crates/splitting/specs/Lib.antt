-- Whether a union or munion pattern is met by a set or map too large to split: what the functions ask and promise, for the contracts of this crate alone.
pub mod Split
pub mod Told
pub mod Laws
