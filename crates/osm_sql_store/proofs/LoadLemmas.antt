-- What the queries read.
pub mod OneTable
pub mod SharedTexts
pub mod SelectLemmas
pub mod AnswerLemmas
pub mod CauseLemmas
pub mod ReadLemmas
pub mod TableTexts
pub mod TableReads
pub mod FlagReads
pub mod ReaderPromises
pub mod Starts
