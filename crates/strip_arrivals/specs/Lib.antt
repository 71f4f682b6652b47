pub mod Along
pub mod Arrivals
pub mod Company
pub mod Gross
