pub mod SchemaLemmas
pub mod MovedLemmas
pub mod ObjectLemmas
pub mod ToldLemmas
pub mod StableLemmas
pub mod LayoutLemmas
pub mod FoundLemmas
pub mod PremiseLemmas
mod Begun
mod BesideLemmas
mod Entries
mod Events
mod Held
mod ListLemmas
mod MergeLemmas
mod NineTrees
mod NoStore
mod OneList
mod Places
mod Resumed
mod SameTrees
mod Sizes
mod Twins
mod VerifiedLemmas
