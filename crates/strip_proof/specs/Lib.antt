pub mod Plan
pub mod Rows
pub mod Field
pub mod Faults
pub mod Format
pub mod Text
pub mod Told
