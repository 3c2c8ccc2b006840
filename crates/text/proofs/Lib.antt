mod Steps
mod Cuts
mod Unique
pub mod Rows
mod Readings
mod Gathered
pub mod Contents
