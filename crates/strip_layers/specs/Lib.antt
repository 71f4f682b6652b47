pub mod Asks
pub mod Begun
pub mod Layer
pub mod Layered
pub mod Raised
pub mod Search
pub mod Shown
pub mod Walked
