pub mod Apart
pub mod Grown
