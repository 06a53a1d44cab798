-- What the queries read.
pub mod BodyTexts
pub mod BodyReads
pub mod NoQuery
