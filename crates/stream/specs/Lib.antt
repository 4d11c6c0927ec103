pub mod Kind
pub mod Parts
pub mod Awaited
pub mod Described
pub mod Laws
pub mod Answers
pub mod Lines
