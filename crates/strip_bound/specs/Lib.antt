pub mod Falling
pub mod Bounds
pub mod Promise
pub mod Waiting
pub mod Tables
pub mod Parties
pub mod Bounded
