-- The rows of a blob, one after the other.
pub mod BoundValues
pub mod Placing
pub mod Gaining
