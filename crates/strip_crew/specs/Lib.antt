pub mod Source
pub mod Hub
pub mod Sources
pub mod Crew
pub mod Race
pub mod Spread
