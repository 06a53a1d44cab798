-- What the queries of an audit read, and a loop over rows.
pub mod RowLists
pub mod BodyAudits
