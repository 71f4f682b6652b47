pub mod Sets
pub mod Vectors
pub mod FourSets
pub mod Owed
pub mod Saving
mod TwoPlaces
mod ByClass
pub mod Parts
mod Once
pub mod Blocks
mod Halving
