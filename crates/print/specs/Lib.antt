pub mod Printing
pub mod Places
pub mod Write
pub mod Page
