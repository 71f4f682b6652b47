pub mod Way
pub mod Justified
pub mod Next
pub mod Search
