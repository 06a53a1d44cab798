pub mod Beside
pub mod Left
pub mod Lives
pub mod Further
pub mod Copied
pub mod Merged
pub mod TwoStores
pub mod Verified
