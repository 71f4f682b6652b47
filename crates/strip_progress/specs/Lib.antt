pub mod Due
pub mod Row
