mod Lists
pub mod Least
pub mod Places
mod Left
mod Saved
mod Four
mod Alone
mod Lanes
mod Blocks
mod Waits
mod Extra
mod Examples
