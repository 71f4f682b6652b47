pub mod Set
pub mod Sums
pub mod Least
pub mod Iter
pub mod Laws
