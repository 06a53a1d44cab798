pub mod EarlierRows
pub mod Stages
