pub mod Numbers
pub mod Faults
pub mod Ranges
pub mod Shown
