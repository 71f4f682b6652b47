pub mod Numbers
pub mod Saving
pub mod Laws
