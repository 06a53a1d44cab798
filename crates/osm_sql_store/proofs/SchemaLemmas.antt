-- What the statements mean that make the tables.
pub mod SharedTexts
pub mod TableTexts
pub mod StatementParts
pub mod Makes
pub mod MakeSteps
pub mod VersionLemmas
