-- What rows stand for.
pub mod Numbering
pub mod Loading
pub mod TableElements
pub mod TableParts
pub mod TableAnswers
pub mod PartRows
pub mod Finding
pub mod Unread
