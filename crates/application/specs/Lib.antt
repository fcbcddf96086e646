-- What applying a sequence or a map asks and promises, for the contracts of this crate alone.
pub mod Applying
