pub mod Sizes
pub mod Lots
pub mod Guarantee
