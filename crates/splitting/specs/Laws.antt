-- Laws of the definitions of splitting.
pub mod Split
