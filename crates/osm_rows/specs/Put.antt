-- What a put adds to the rows of tables.
pub mod WrittenRows
pub mod Gains
