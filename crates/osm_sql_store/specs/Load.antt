-- What queries answer.
pub mod Asking
pub mod Selects
pub mod Starting
pub mod Telling
