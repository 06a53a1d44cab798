-- The rows of a held map.
pub mod HeldLemmas
pub mod TableHeld
pub mod OneMore
pub mod PlacedLaws
pub mod PartLaws
pub mod StoredElements
pub mod SameElements
pub mod OneElement
pub mod OneMap
