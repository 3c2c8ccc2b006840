pub mod Bias
pub mod Shift
