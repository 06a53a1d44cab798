pub mod Values
pub mod Lists
pub mod Texts
pub mod Indexes
pub mod Columns
pub mod Tally
