pub mod Lines
pub mod Paths
pub mod Parts
pub mod Apart
pub mod Ended
