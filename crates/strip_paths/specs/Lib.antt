pub mod Paths
pub mod Shown
