pub mod Orders
pub mod Ascents
mod Bisection
mod Finding
mod Edits
pub mod Standing
pub mod Contents
