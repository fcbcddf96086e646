-- Records, rules 3 to 9 and the check (`Record`, `Table`, `Sheet`, `Check`); the rules as relations (`Rules`); what an accepted table has, and what the readers ask and promise. Cited by whoever reads a table.
pub mod Limits
pub mod Record
pub mod Table
pub mod Sheet
pub mod Check
pub mod Faults
pub mod Accepted
pub mod Rules
pub mod Shapes
pub mod Reading
