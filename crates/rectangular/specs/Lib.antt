pub mod Rectangular
pub mod Rules
pub mod Interval
