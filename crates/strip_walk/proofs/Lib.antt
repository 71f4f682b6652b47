pub mod Lists
pub mod Stayed
pub mod Bounds
pub mod Answered
pub mod Settled
pub mod Ended
pub mod Turned
pub mod Children
