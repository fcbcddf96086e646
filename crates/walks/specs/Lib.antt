-- The run of a list, the first list and the step, as the code answers them. Cited by services.
pub mod Steps
