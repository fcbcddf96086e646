-- What finding in collections and building them ask and promise. Cited by the operators on scratch and the evaluator.
pub mod Finding
pub mod Building
pub mod Steps
