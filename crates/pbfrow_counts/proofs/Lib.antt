pub mod CountLemmas
pub mod TextLemmas
pub mod WalkLemmas
