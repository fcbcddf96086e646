-- What each pass of the check asks and gives, for the contracts of this crate alone; what the check answers stands in `tables/Check`.
pub mod Naming
pub mod Scopes
pub mod Heights
pub mod Sweeps
pub mod Answer
