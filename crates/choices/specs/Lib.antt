-- Outcomes, choice trees, following a list of entries through one, complete lists and their order, and the state of a run's choices. Cited by
-- lists, meaning, evaluator and walks.
pub mod Outcome
pub mod Tree
pub mod Lists
pub mod Paths
pub mod State
pub mod Listing
pub mod Runs
pub mod Ran
