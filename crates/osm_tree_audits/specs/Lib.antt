pub mod Finding
pub mod Auditing
pub mod ElementTables
pub mod Walking
pub mod Indexes
pub mod Strays
pub mod Looks
pub mod Looking
