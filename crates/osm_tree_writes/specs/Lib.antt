pub mod Added
pub mod Appending
pub mod Beside
pub mod Faults
pub mod Harmless
pub mod Putting
pub mod Tables
