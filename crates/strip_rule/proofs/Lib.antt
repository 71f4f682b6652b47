pub mod Left
pub mod Fits
pub mod Exchange
pub mod Open
pub mod Firsts
pub mod Held
pub mod Examples
