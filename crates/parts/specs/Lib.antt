-- Parts of a value where it lies, and as words: what they denote, what the functions on them ask and promise. Cited by matching to the evaluator.
pub mod Chosen
pub mod Mask
pub mod Choice
pub mod Part
pub mod Word
pub mod Run
pub mod Contract
