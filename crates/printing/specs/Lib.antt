-- Where a print stands: which list is due, what text is still to come, and what writing a piece of it promises. Cited by the walk program.
pub mod Due
pub mod Rest
pub mod Pieces
pub mod Contract
