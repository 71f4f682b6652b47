pub mod Homes
mod Places
mod Made
pub mod Found
pub mod PutLeaves
pub mod Stripes
mod Outcomes
mod Afterwards
mod Examples
