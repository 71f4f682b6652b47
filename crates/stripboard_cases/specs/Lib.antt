pub mod CaseRows
pub mod Met
pub mod AtHand
pub mod Judged
pub mod Runs
