-- What the statements of a put add.
pub mod Inserts
pub mod Adds
pub mod RowSteps
pub mod RowValues
pub mod ManyRows
pub mod InsertTexts
pub mod InsertSteps
pub mod KeeperPromises
