pub mod Placed
pub mod Rests
pub mod Added
pub mod Lists
pub mod Open
pub mod After
pub mod Results
