pub mod Group
pub mod Days
pub mod Places
pub mod Saved
