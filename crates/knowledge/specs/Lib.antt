pub mod Millionths
pub mod Offsets
pub mod Knowledge
pub mod Distributions
