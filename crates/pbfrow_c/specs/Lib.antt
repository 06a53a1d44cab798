pub mod Blob
pub mod Blocks
pub mod Header
pub mod Names
