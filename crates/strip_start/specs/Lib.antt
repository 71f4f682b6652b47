pub mod Greedy
pub mod Moves
pub mod Sides
pub mod Scan
pub mod Runs
