pub mod Blanks
pub mod Numbers
pub mod Digits
mod Records
pub mod Making
pub mod Held
pub mod Passed
pub mod FirstFault
pub mod Back
mod Taken
mod Flexible
pub mod Trimmed
pub mod Unmarked
pub mod OnLiterals
pub mod Spared
pub mod Named
