-- The check refuses a table exactly where a rule of document 01 does (`specs/Rules`): what each test of the check tells, and then the check whole.
mod Tells
mod Cutting
mod Naming
mod Around
mod Scopes
mod Conditions
mod Heights
mod Order
pub mod Exact
mod Sample
