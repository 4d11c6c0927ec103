pub mod Commands
pub mod Reading
