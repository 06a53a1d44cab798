-- The tables of a store, made and known again.
pub mod Named
pub mod Over
pub mod Making
pub mod Stages
pub mod Versions
