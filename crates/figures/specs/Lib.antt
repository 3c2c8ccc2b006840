pub mod Figures
pub mod Grades
pub mod Reading
