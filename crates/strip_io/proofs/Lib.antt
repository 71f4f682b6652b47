mod Changes
mod Counts
pub mod Names
mod OpenFiles
mod Pieces
mod Places
mod Streams
