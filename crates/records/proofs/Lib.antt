mod Numerals
pub mod Steps
mod Walk
mod Whole
mod Spreads
mod Heads
mod Choosing
pub mod Numbering
