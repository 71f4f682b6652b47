pub mod Befores
pub mod Film
pub mod Order
pub mod Pairs
pub mod Pay
pub mod Data
pub mod FilmOf
pub mod Instance
