pub mod Tests
pub mod Commands
pub mod Reading
pub mod Unfinished
