pub mod Endings
pub mod Long
pub mod Ways
pub mod Given
pub mod Due
