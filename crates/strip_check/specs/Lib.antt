pub mod Accepted
pub mod Faults
pub mod Reasons
pub mod Told
