-- Laws of tests, of kinds and operands, of cutting a table, of what lies below and around a record, and of accepted tables. Cited by whoever reads a table.
pub mod Tests
pub mod Kinds
pub mod Cutting
pub mod Operands
pub mod Through
pub mod Roles
pub mod Below
pub mod Accepted
