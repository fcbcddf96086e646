-- Laws of the definitions of forming. Cited by bindings.
pub mod Adding
pub mod Onward
