pub mod Below
pub mod Putting
pub mod Reading
pub mod Checking
pub mod Answers
