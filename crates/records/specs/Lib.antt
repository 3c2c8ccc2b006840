pub mod Tests
pub mod Columns
pub mod Cells
pub mod Entries
