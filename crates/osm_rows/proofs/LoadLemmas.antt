-- Elements and extents made from rows.
pub mod RowLoops
pub mod StoredRows
pub mod TableFinds
pub mod ElementKinds
pub mod ElementRows
pub mod ElementsMade
pub mod ExtentLaws
pub mod FlagLaws
pub mod Numbering
pub mod ShownRows
