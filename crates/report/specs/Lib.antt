pub mod Reading
pub mod Output
pub mod Turns
