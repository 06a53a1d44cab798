pub mod ArgumentLemmas
pub mod ElementLaws
pub mod WordsLemmas
