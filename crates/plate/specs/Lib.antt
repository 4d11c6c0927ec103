pub mod Paper
pub mod Replies
pub mod Plates
pub mod Lawful
