-- What the statement of a put adds.
pub mod BodySteps
