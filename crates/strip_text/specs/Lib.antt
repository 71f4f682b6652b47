pub mod Field
pub mod Number
pub mod Rows
pub mod Checks
pub mod Told
pub mod Reader
pub mod Writer
