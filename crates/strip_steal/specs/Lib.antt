pub mod Rule
pub mod Steps
pub mod Seat
pub mod Taker
