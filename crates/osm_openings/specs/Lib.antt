pub mod Asked
pub mod Catalog
pub mod Obstacles
pub mod Presumed
pub mod Opened
