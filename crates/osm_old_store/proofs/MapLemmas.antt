-- The map that a store held in an earlier version.
pub mod EarlierLaws
