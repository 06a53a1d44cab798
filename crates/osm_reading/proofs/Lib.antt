pub mod Begun
pub mod ExamineLemmas
pub mod FaultLines
pub mod Filling
pub mod GoodLaws
pub mod Moves
pub mod NextFrame
