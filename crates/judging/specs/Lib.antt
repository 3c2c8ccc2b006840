pub mod Brackets
pub mod Verdicts
pub mod Words
pub mod Guarantee
