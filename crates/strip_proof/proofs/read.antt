pub mod SetDigits
pub mod Scenes
pub mod Lines
pub mod Parts
pub mod Whole
pub mod Said
pub mod NeverMemory
