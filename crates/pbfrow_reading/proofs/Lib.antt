pub mod CheckLemmas
pub mod CommandTexts
pub mod Judging
pub mod LineLemmas
pub mod ListLemmas
pub mod ListingLaws
pub mod ListingSteps
pub mod RangesLemmas
pub mod ShowLemmas
mod VectorCommands
pub mod Walking
