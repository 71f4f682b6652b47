pub mod Named
pub mod Shelf
