pub mod Reasons
pub mod Checked
pub mod Found
