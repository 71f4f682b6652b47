pub mod Disk
pub mod Run
