-- What the steps of a put write.
pub mod Batches
pub mod Steps
