pub mod Names
pub mod Fields
pub mod Held
pub mod Back
