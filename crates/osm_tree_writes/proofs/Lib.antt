pub mod Listed
pub mod Telling
pub mod Places
pub mod AppendLemmas
pub mod RowKeys
pub mod Obeying
pub mod Writing
pub mod ToKeep
