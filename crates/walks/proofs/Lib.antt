-- A run settled, and first and step put together; services cite it.
pub mod Settling
mod Stepping
