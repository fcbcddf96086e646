-- What the proofs of the functions need; splitting, forming and bindings cite it too.
pub mod Placing
pub mod Counting
pub mod Piecing
pub mod Literals
pub mod Records
pub mod Naming
