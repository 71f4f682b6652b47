pub mod Results
pub mod Members
pub mod Names
pub mod Cuts
pub mod Spelled
pub mod Given
mod Workers
mod Leaving
pub mod Shows
pub mod Solving
pub mod Filming
pub mod Planning
pub mod Made
pub mod OneJob
