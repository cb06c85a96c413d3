pub mod Numerals
pub mod Lines
pub mod Terms
pub mod Polynomials
