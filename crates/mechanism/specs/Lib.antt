pub mod Counts
pub mod Refusals
pub mod Statuses
pub mod Mechanisms
pub mod Buffers
