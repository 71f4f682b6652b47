mod Marks
mod Places
mod Arranged
mod Paid
mod back
mod WrittenExamples
pub mod Ways
pub mod Nearer
pub mod Closer
pub mod Least
pub mod WayExamples
pub mod Casts
pub mod pairs
pub mod read
mod said
mod Examples
