-- What the queries of an audit read, and what it comes to.
pub mod AtOffset
pub mod BlobReads
pub mod CountReads
pub mod StoreRows
