pub mod Tests
pub mod Columns
pub mod Meanings
pub mod Judging
pub mod Owed
