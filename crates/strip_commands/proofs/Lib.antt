mod Drawn
mod Casts
mod Limits
mod Readable
pub mod Films
pub mod Boards
pub mod Printed
pub mod Priced
pub mod Reported
pub mod Tried
pub mod Proved
