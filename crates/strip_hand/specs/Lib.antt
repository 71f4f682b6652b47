pub mod Search
pub mod Hand
pub mod Calls
pub mod Limits
