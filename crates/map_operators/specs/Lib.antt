-- What the operators on maps ask and promise, for the contracts of this crate alone.
pub mod Contract
