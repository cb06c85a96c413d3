pub mod Line
pub mod Chosen
pub mod Read
