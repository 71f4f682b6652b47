pub mod Entry
pub mod Memo
