pub mod SumsHold
pub mod Noted
pub mod Runs
pub mod ClassSums
pub mod Shares
pub mod Counts
pub mod Refusals
