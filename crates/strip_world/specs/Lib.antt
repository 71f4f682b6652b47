pub mod World
pub mod Shown
pub mod Allowed
pub mod Steps
pub mod Opened
pub mod Sound
pub mod Hand
