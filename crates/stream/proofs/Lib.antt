pub mod Agree
pub mod Followed
pub mod Placed
pub mod Description
pub mod Apart
pub mod Whole
pub mod Answered
