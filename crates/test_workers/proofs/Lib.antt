pub mod Front
pub mod QueueNumbers
