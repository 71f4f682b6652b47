pub mod State
pub mod Steps
pub mod Reduction
pub mod Law
pub mod Shown
pub mod Search
pub mod Draft
pub mod Oriented
