pub mod Notes
pub mod Risks
pub mod Rows
pub mod Book
