pub mod Home
pub mod Bucket
pub mod Stripe
pub mod Shown
