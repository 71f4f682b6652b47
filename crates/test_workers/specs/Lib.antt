pub mod Hubs
pub mod Team
