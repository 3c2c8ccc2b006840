pub mod Table
pub mod Normal
pub mod Values
pub mod Heights
pub mod Mirror
pub mod Halves
pub mod Rules
