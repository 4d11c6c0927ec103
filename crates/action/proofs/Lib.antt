pub mod Rows
pub mod BarCodes
pub mod Owing
pub mod Decides
pub mod Lawful
