pub mod Best
pub mod Trimmed
pub mod Marks
