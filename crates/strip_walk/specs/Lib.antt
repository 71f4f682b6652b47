pub mod Found
pub mod Walked
pub mod Begun
pub mod Sifted
