mod Back
pub mod Chosen
pub mod Priced
mod Rows
pub mod Readable
