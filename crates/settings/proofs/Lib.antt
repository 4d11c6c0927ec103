pub mod Bounds
mod Lists
