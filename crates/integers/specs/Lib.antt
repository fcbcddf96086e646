-- The integers of a sheet and what each operation answers, their order, and numbers as bytes. Cited by values, tables and operators.
pub mod Whole
pub mod Division
pub mod Order
pub mod Bytes
