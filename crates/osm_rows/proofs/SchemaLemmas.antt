-- What the statements mean that make the tables.
pub mod TablesDefined
