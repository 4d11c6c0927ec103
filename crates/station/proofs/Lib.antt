pub mod Courses
pub mod Along
