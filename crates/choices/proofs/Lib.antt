-- Laws of trees, lists and runs. Cited by meaning, lists, the evaluator and walks.
pub mod Order
pub mod Leaves
pub mod Trees
pub mod Paths
pub mod Steps
pub mod Cut
pub mod Walk
pub mod Parts
pub mod Outcomes
pub mod States
pub mod Ran
pub mod Runs
pub mod Came
pub mod Stepping
pub mod Choosing
pub mod Raising
