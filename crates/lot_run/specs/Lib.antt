pub mod Grades
pub mod Worked
