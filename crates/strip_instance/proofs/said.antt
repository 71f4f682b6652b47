pub mod Limits
pub mod Within
pub mod SaidNames
pub mod NeverMemory
