pub mod Writing
pub mod Released
pub mod Normal
pub mod Run
