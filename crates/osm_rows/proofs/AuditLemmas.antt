-- The rows of a held map, as queries see them.
pub mod Telling
pub mod AllRows
pub mod HeldRows
