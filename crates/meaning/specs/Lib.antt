-- What a sheet means, as a tree of choices and as the loose meaning; what the services answer; demand 3. The evaluator, walks and services cite it.
pub mod Node
pub mod State
pub mod Sheet
pub mod Meaning
pub mod Read
pub mod Loose
pub mod Answer
pub mod Walk
pub mod Service
pub mod Lent
pub mod Calls
pub mod Reaches
pub mod Demand
pub mod Unreached
pub mod Kinds
