pub mod Bytewise
