-- What the statements mean that make the table of bodies.
pub mod BodyTexts
pub mod MakeBodies
