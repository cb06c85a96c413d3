pub mod Products
pub mod Exits
