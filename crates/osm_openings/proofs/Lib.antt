pub mod PlaceLemmas
pub mod ListedLemmas
pub mod ExactLemmas
pub mod KnownLemmas
pub mod OrderLemmas
pub mod ForeignLemmas
pub mod AskedLemmas
pub mod OpeningLemmas
