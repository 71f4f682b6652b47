mod Examples
pub mod Counted
pub mod Sized
pub mod Written
pub mod Held
pub mod Paid
mod Below
mod Places
mod Walk
pub mod Total
mod Added
mod PageExamples
pub mod Pieces
pub mod Placed
pub mod Escapes
mod Sentence
mod Columns
mod Marks
mod Broken
mod Warned
mod Worked
