pub mod Audit
pub mod Claims
