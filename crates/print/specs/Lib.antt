-- The print of a table, and what the functions that write it promise. Cited by the walk program.
pub mod Ascii
pub mod Text
pub mod Print
pub mod Contract
