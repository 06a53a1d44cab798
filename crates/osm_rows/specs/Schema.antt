-- The tables of a store, in each layout.
pub mod Bodies
pub mod Tables
pub mod Layouts
