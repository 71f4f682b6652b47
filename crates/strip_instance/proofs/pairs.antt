pub mod Ways
pub mod SaidPairs
pub mod Fit
