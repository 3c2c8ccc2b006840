pub mod Rounding
pub mod Witnesses
