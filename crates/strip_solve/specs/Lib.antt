pub mod Own
pub mod Priced
pub mod Solved
pub mod Searched
pub mod Answer
