pub mod Seal
