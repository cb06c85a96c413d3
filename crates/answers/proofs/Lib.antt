pub mod AnswerLaws
pub mod SetLaws
pub mod Exits
pub mod Lengths
pub mod Counting
