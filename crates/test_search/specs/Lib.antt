pub mod Beginning
pub mod Cheapest
pub mod Forgetful
pub mod Way
pub mod Worked
