pub mod Hexadecimal
pub mod Refused
pub mod Shown
pub mod Texts
