pub mod Words
pub mod View
pub mod Shown
pub mod Rule
pub mod Steps
pub mod Pass
